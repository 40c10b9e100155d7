pub mod Line
pub mod Records
pub mod Parts
pub mod Filled
pub mod Ends
pub mod Readings
pub mod Promises
pub mod Examples
