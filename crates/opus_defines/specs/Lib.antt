pub mod Bounds
pub mod Numbers
pub mod Rules
pub mod Outcome
