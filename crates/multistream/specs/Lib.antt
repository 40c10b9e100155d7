pub mod Streams
pub mod Pad
pub mod Unpad
pub mod Parts
pub mod Reading
pub mod Cases
