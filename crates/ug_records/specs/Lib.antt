pub mod Answers
pub mod Laws
pub mod Lengths
pub mod Reading
pub mod Rests
pub mod Spelling
