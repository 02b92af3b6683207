pub mod Statements
pub mod Refusals
pub mod Bounds
pub mod Places
pub mod Tokens
pub mod Computed
