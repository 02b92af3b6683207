mod Dropped
pub mod Counted
mod RowsFit
mod Inserted
mod Created
mod NewNumbers
mod Restructured
mod IndexFit
mod Swapped
mod Gone
mod ViewMade
mod ViewFit
pub mod Exactly
