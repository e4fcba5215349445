mod Lists
mod Keeping
mod Putting
mod Sharing
mod Ends
mod Making
pub mod Calling
pub mod Crossing
