pub mod Views
pub mod Heard
pub mod Openings
pub mod Dones
pub mod Hands
pub mod Starts
pub mod Reads
pub mod Currents
