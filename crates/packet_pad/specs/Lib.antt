pub mod Lengths
pub mod Pad
pub mod Unpad
