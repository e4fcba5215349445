pub mod Leaves
pub mod Plays
pub mod DiskPlays
pub mod Solved
pub mod Queues
pub mod SimWorkers
