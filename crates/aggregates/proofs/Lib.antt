pub mod Apart
pub mod WithinSums
pub mod Order
pub mod InRuns
pub mod Held
pub mod Sourced
pub mod Standing
pub mod Placed
