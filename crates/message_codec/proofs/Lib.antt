pub mod ByKind
pub mod Come
pub mod Queue
pub mod ReadAgain
