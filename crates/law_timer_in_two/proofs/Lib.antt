pub mod Deadlines
pub mod InTwo
