pub mod Alls
pub mod Entries
pub mod Inner
pub mod Known
pub mod Numbers
pub mod Overs
pub mod KnownAs
pub mod Wholes
