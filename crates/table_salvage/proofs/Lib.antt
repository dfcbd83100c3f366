pub mod Turns
pub mod Words
