pub mod Causes
mod First
pub mod Firsts
pub mod Composes
pub mod Goings
pub mod Covering
pub mod Finds
pub mod Going
pub mod Keeps
pub mod Lasts
pub mod Making
pub mod Outcomes
