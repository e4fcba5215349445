pub mod Options
pub mod Numbers
pub mod Taken
