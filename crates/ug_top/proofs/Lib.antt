mod Moved
mod Runs
mod Accounts
pub mod Books
pub mod Covering
pub mod Answering
mod Exact
mod Gathered
mod Left
mod Scales
mod Stored
mod Tellings
mod Texts
pub mod Solved
pub mod Needs
