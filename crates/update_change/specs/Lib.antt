pub mod Causes
pub mod Changes
pub mod PairsCauses
pub mod Contention
pub mod Moves
pub mod Parts
pub mod Replacements
