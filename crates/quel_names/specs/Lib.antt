pub mod Asking
pub mod Parts
pub mod Ranging
pub mod Roles
