pub mod Join
pub mod Parts
pub mod Refusals
