pub mod Records
pub mod Verdicts
pub mod Version
pub mod Words
