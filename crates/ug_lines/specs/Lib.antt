pub mod Lines
pub mod Words
pub mod Kinds
pub mod Shapes
pub mod Shaped
