pub mod Folders
pub mod SendQueues
