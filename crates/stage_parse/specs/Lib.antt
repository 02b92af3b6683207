pub mod Checks
pub mod Counted
pub mod Standing
pub mod Judging
pub mod Arriving
pub mod Parsing
