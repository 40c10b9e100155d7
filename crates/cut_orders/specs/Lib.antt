pub mod Orders
pub mod Singly
