pub mod ByType
pub mod Stored
