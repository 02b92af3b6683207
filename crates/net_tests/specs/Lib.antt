pub mod Playing
pub mod Carrying
