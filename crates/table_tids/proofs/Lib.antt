pub mod Distance
pub mod Ahead
