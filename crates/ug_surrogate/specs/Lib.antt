pub mod Weights
pub mod Magnitudes
pub mod Columns
pub mod Rounding
pub mod Implied
pub mod Subgradients
pub mod Stronger
pub mod Complete
