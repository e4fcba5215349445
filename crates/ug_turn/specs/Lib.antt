pub mod Histories
pub mod Views
pub mod Rules
pub mod Steps
pub mod Seats
pub mod Locks
pub mod Calls
