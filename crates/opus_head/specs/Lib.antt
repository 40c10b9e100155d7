pub mod Header
pub mod Reading
pub mod Parts
pub mod Heads
