pub mod Carrying
pub mod Steps
