pub mod Addresses
pub mod Crashing
pub mod Entries
pub mod Moments
pub mod Scanning
