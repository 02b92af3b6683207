pub mod Page
pub mod RowBytes
pub mod Marks
