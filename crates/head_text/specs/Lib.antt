pub mod Labels
pub mod Text
