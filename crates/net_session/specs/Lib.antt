pub mod Made
pub mod Rounds
pub mod Runs
pub mod Session
