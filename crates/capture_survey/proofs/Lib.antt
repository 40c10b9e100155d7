pub mod Savings
pub mod Counting
pub mod Going
pub mod Walking
pub mod Summing
pub mod Promises
