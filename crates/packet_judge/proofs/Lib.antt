pub mod Telling
pub mod Verdicts
pub mod Short
pub mod Taken
pub mod Within
pub mod Tallying
pub mod Promises
pub mod Examples
