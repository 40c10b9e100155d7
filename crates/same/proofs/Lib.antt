pub mod Bounds
pub mod Promises
