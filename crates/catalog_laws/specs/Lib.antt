pub mod Loaded
pub mod Made
pub mod Unread
pub mod Placed
pub mod Followed
