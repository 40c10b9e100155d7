pub mod Size
pub mod Answers
