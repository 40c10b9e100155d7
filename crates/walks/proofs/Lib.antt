pub mod Steps
pub mod Lent
pub mod LentTwo
pub mod Slices
pub mod Prefix
