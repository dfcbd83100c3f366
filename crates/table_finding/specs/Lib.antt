pub mod Finding
pub mod Searched
