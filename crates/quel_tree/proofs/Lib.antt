pub mod ChangeLevels
pub mod Levelled
pub mod TreeLevels
pub mod Written
