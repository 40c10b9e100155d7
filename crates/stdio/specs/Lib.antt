pub mod Reading
pub mod Failures
