pub mod Calls
pub mod Disk
pub mod History
pub mod LeftSinceLaws
pub mod MemoryDisk
pub mod Walks
