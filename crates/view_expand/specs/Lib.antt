pub mod Asking
pub mod Causes
pub mod Covering
pub mod Found
pub mod Listed
