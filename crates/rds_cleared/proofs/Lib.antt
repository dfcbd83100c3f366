pub mod Headers
pub mod Heads
