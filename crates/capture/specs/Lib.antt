pub mod Records
pub mod Finding
pub mod Reading
