pub mod Labels
pub mod Listing
