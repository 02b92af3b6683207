pub mod Ends
pub mod Rewritten
