pub mod Streams
pub mod Views
pub mod Laws
