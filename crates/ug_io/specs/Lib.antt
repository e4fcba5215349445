pub mod Outside
pub mod Scripted
pub mod Links
pub mod LinkMemories
pub mod Crews
pub mod CrewMemories
