pub mod Orders
pub mod Places
pub mod Rises
pub mod Sorts
