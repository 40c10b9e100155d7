pub mod Laid
pub mod Built
pub mod Digits
pub mod Signed
pub mod Refusals
pub mod Examples
