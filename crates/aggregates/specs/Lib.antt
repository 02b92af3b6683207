pub mod Members
pub mod Runs
pub mod Settled
pub mod Sums
