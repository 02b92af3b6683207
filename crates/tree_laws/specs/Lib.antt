pub mod FitExpansions
pub mod Nesting
pub mod Denoting
pub mod Levels
