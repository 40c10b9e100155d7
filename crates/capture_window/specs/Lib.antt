pub mod Window
pub mod Parts
