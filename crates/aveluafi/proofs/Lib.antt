pub mod Records
pub mod Examples
pub mod Promises
pub mod Verdicts
pub mod Words
