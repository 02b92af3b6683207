pub mod Alike
pub mod Through
pub mod Known
pub mod SchemaStands
pub mod Scopes
pub mod CheckedTrees
pub mod LawfulHalves
