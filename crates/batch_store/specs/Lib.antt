pub mod Numbers
pub mod Opening
pub mod Run
pub mod Running
pub mod Recovered
pub mod Store
