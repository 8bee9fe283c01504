pub mod Prefix
pub mod ReadingSteps
pub mod Numbers
pub mod ReadingLoop
pub mod OneFrame
pub mod FrameStream
pub mod Put
