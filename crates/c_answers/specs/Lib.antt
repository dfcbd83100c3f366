pub mod Answers
pub mod Handed
