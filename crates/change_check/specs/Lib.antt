pub mod BySchema
pub mod Kept
