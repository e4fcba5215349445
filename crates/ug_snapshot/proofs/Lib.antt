pub mod Helds
mod Saves
