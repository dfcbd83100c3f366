pub mod Flags
pub mod Back
