pub mod Examples
pub mod Fronts
pub mod Items
pub mod Passing
pub mod Variants
pub mod WholeLaws
