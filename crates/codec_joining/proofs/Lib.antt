pub mod Octets
pub mod Sizes
pub mod Remaining
pub mod Planning
pub mod Writing
pub mod Answers
