pub mod View
pub mod Called
pub mod Mixed
