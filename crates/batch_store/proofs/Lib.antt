pub mod Numbering
pub mod AfterReads
pub mod Putting
pub mod Reopened
pub mod Runs
pub mod Stands
