-- What the proofs of several functions use, and what follows from the definitions alone.
pub mod Laws
pub mod Depth
pub mod Written
pub mod Packets
pub mod Files
pub mod Answers
pub mod Seeking
pub mod Steps
pub mod Whole
pub mod Once
pub mod Apart
pub mod Resuming
pub mod ReadBack
pub mod Shifted
pub mod Held
pub mod Promises
mod Examples
