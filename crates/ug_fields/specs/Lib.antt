pub mod Laws
pub mod Lines
pub mod Readers
pub mod Reading
pub mod Spelling
