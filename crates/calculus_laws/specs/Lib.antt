pub mod Detaching
pub mod Expansion
pub mod Reading
pub mod TupleCalculus
pub mod Updates
