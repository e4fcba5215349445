pub mod Quiet
pub mod Rounds
pub mod Silent
