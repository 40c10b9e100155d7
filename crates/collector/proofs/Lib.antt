pub mod Counts
pub mod Sound
pub mod Held
pub mod Checks
pub mod Examples
