pub mod Traces
pub mod Endings
pub mod Outcomes
pub mod Crews
pub mod Rooms
