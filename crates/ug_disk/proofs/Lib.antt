pub mod Images
pub mod LawLemmas
pub mod Moments
pub mod Pieces
pub mod Restores
pub mod Tears
pub mod Writing
