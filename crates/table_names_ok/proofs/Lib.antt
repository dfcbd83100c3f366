pub mod NamesTest
pub mod Keys
pub mod Halves
