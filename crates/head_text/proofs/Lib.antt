pub mod Texts
pub mod Entries
pub mod Room
pub mod Answers
pub mod Front
pub mod Promises
pub mod Examples
