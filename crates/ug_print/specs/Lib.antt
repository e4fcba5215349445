pub mod Lines
pub mod Answers
pub mod Limited
pub mod Refusals
pub mod Faults
pub mod Checkpoints
