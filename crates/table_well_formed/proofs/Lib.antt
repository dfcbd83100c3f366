pub mod Lengths
pub mod TableTest
