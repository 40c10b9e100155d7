-- What the proofs of the functions use, and what follows from the definitions alone.
pub mod Settling
pub mod Places
pub mod Telling
pub mod Cutting
pub mod Streams
pub mod Promises
mod Examples
