pub mod Heap
pub mod Met
pub mod Laws
pub mod Near
