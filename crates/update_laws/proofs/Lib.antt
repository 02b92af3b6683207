mod Lists
mod Texts
mod Standing
pub mod Valued
mod Assigned
mod Formats
mod Catalogued
mod Queried
mod Ranged
mod NewRows
mod Aggregated
mod Updated
pub mod Fitted
pub mod WalkedForms
pub mod WalkedTrees
mod Worked
