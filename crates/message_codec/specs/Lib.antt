pub mod Messages
pub mod Coming
pub mod Waiting
pub mod MessageLaws
pub mod TakingLaws
