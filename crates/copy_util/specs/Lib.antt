pub mod Causes
pub mod Copies
pub mod Reading
pub mod Rules
pub mod Stored
pub mod Writing
