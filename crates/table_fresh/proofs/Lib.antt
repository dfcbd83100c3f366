pub mod Sizes
pub mod Ranges
pub mod Answers
pub mod Zeros
pub mod Written
pub mod Facts
pub mod Call
