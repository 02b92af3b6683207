mod Lists
mod Making
mod Serving
mod Turning
mod Whole
pub mod Unbegun
