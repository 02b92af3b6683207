pub mod Listing
pub mod Measured
pub mod Remembered
pub mod Sized
pub mod Standing
