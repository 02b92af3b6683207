pub mod Frames
pub mod Messages
pub mod Reading
pub mod Sizes
