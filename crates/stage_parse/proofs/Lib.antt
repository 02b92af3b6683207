pub mod Trees
pub mod Shallow
pub mod Counting
pub mod Meanings
pub mod Places
pub mod Arrivals
pub mod Steps
pub mod AtWork
