pub mod Answers
pub mod Heads
pub mod Named
pub mod Cases
