-- What the proofs of the functions use, and what follows from the definitions alone.
pub mod Equal
pub mod Alike
pub mod Beginning
pub mod Looking
pub mod Following
pub mod Promises
mod Examples
