pub mod Levels
pub mod Looked
