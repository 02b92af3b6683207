mod Texts
mod Fronts
mod Heard
mod Cutting
mod AtTheStart
mod Reached
pub mod Printed
pub mod Stopped
