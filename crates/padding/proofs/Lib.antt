pub mod Asking
pub mod Looked
pub mod Words
