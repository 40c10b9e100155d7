pub mod Header
pub mod Compact
pub mod Sums
pub mod Forms
