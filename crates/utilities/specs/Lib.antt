pub mod Causes
pub mod Decided
pub mod Owning
