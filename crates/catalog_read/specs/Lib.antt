pub mod Laws
pub mod PartsMade
pub mod Read
pub mod Rows
pub mod Splitting
pub mod Parts
pub mod Applying
