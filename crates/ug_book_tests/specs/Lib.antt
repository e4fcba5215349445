pub mod Both
pub mod Passes
