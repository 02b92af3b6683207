pub mod Proper
pub mod Walked
