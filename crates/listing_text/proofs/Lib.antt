pub mod Frames
pub mod Room
pub mod Answers
pub mod Examples
