pub mod Accepted
pub mod Firing
