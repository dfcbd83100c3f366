pub mod TidNew
pub mod Dropped
pub mod Repeats
