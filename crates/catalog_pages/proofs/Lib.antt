pub mod Again
pub mod Files
pub mod Items
pub mod Listed
pub mod Moved
pub mod Known
