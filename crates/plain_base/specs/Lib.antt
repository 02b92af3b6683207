pub mod FoundRows
pub mod Laws
pub mod Near
pub mod Places
pub mod Shown
