pub mod AtSizes
pub mod AtPadding
pub mod AtFrames
