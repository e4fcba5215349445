pub mod Draws
pub mod Stated
