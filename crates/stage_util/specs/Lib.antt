pub mod Standing
pub mod Working
pub mod Laying
pub mod Copying
