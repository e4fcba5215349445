pub mod Causes
pub mod Crashes
pub mod Histories
pub mod Laws
pub mod Memories
pub mod Scripts
pub mod Slots
