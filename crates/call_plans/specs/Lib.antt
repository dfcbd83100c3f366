pub mod Calls
pub mod Concerns
