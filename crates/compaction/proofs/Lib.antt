pub mod Entries
pub mod Steps
pub mod Going
pub mod Running
pub mod Putting
pub mod Turns
pub mod Nights
pub mod Whole
pub mod Joining
pub mod Faithful
pub mod Least
pub mod Again
pub mod Exactly
pub mod Promises
mod Examples
