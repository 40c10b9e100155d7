pub mod Rates
pub mod Samples
pub mod Answers
pub mod Keys
pub mod Examples
