pub mod Pools
pub mod Plain
pub mod Steps
