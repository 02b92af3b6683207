pub mod Bases
pub mod Files
pub mod Gone
pub mod Moves
pub mod Renumbered
