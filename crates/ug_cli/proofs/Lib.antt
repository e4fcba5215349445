pub mod Added
pub mod Exclusive
pub mod Parses
pub mod Spelled
