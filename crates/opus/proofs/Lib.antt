pub mod Parsed
pub mod Naming
pub mod Promises
pub mod AtPacket
pub mod AtShort
pub mod AtOwn
pub mod AtEqual
pub mod Lent
