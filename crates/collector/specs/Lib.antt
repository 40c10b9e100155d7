pub mod Collector
pub mod Parts
