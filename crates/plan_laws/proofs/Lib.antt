pub mod Kept
pub mod Orders
pub mod Alike
pub mod Numbered
pub mod Planned
pub mod NewNumbers
mod GoneNumbers
pub mod Plans
pub mod Ranging
pub mod Changed
mod ReadRows
pub mod RowsChanged
pub mod CopiedRows
pub mod Indexes
pub mod Restructured
pub mod NewIndexes
pub mod Staying
pub mod PlainQueries
pub mod StayingFacts
pub mod Beside
pub mod Created
mod Sublists
pub mod Destroyed
pub mod Replaced
pub mod BesideViews
pub mod ViewMade
pub mod Tests
pub mod Levels
pub mod FitUtilities
