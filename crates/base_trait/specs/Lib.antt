pub mod Causes
pub mod Crashes
pub mod InMemory
pub mod Scans
pub mod Known
