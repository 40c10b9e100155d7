pub mod Output
pub mod Numbered
pub mod Pieces
