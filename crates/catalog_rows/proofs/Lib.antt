pub mod Behind
pub mod Cuts
pub mod Fields
pub mod Joins
pub mod Lengths
pub mod Tests
