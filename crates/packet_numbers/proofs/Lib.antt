pub mod Numbering
pub mod Growing
pub mod Lanes
pub mod Examples
