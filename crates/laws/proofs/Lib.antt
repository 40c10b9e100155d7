pub mod Never
pub mod Bytes
pub mod Every
pub mod Signed
pub mod Options
