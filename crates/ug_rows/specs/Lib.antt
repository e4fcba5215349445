pub mod Boxes
pub mod Rows
pub mod Sums
