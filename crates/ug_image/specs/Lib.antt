pub mod Images
pub mod Spelling
pub mod Reading
pub mod Answers
pub mod Laws
pub mod Rests
