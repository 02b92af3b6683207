pub mod Crashes
pub mod Known
