pub mod Contents
pub mod Pieces
mod Firsts
