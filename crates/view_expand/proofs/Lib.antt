pub mod Cutting
pub mod Few
pub mod Viewing
pub mod Listing
pub mod Causing
pub mod Keeping
