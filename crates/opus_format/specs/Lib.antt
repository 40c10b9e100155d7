pub mod Frames
pub mod Format
pub mod Reading
pub mod Broken
pub mod Dirt
