pub mod Toc
pub mod Answers
pub mod Formula
