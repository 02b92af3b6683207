pub mod Asking
pub mod Differing
pub mod Meant
pub mod Resolving
pub mod Saying
