pub mod Shallow
pub mod Levels
pub mod Records
