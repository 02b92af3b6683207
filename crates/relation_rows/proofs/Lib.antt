pub mod Once
pub mod Pages
pub mod Holding
