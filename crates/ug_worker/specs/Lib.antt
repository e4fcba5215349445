pub mod Releases
pub mod Engagements
pub mod Workers
