pub mod Adding
pub mod Parts
pub mod Runs
