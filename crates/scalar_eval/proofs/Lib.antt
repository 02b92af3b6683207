pub mod Powers
pub mod Wide
pub mod Marks
pub mod Unpadded
pub mod Items
pub mod Unclosed
pub mod Walking
pub mod Texts
pub mod Groups
pub mod Relation
pub mod Stands
mod Worked
