pub mod Orders
pub mod Products
pub mod SumLemmas
pub mod EndLemmas
pub mod AreaLemmas
pub mod EndBounds
pub mod Replaced
