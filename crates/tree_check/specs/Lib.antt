pub mod Columned
pub mod Standing
