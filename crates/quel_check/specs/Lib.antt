pub mod Known
pub mod Matching
pub mod Seen
