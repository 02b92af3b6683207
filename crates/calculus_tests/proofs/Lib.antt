pub mod OfOne
