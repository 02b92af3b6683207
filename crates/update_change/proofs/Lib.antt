mod Failing
mod Few
mod TargetsRead
pub mod Mapped
pub mod After
mod Contended
mod Differing
mod InOrder
pub mod Joined
pub mod MovedRows
mod NewRows
mod Searched
