pub mod Causes
pub mod Refused
pub mod Faults
pub mod Placed
