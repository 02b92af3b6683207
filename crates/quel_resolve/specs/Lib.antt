pub mod Answers
pub mod Kinds
pub mod Changed
pub mod Targets
