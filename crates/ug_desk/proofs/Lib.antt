pub mod Columns
pub mod Works
pub mod Joined
pub mod Ends
pub mod Entering
pub mod Saving
pub mod Begun
mod Incumbents
mod Falling
pub mod Backing
mod Turns
mod Taking
mod Parceled
pub mod Seating
pub mod Crossing
