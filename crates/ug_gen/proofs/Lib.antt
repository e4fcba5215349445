pub mod Rules
pub mod Limits
