pub mod Pieces
pub mod Sets
pub mod LentParts
