pub mod Replies
pub mod Causes
pub mod Layings
pub mod Effects
pub mod Fits
pub mod Results
pub mod Takings
pub mod AtWork
