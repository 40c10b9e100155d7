-- What the proofs of the functions use, and what follows from the definitions alone.
pub mod Sharing
pub mod Fronts
pub mod Parting
pub mod Doing
pub mod Resuming
pub mod Calls
pub mod Promises
mod Examples
