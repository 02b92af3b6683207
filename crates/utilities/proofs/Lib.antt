pub mod Causes
pub mod Deciding
pub mod Breaking
pub mod Ascending
pub mod Plans
pub mod InUse
pub mod Owner
