pub mod Flags
pub mod Finding
