pub mod Faults
pub mod Layout
pub mod OnDisk
pub mod Order
pub mod Redone
pub mod Staged
