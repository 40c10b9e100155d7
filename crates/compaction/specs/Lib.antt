pub mod Account
pub mod Share
pub mod Nights
pub mod Lossless
pub mod Shortest
pub mod Parts
