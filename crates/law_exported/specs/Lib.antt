pub mod Session
pub mod InTwo
pub mod Waiting
pub mod Cost
pub mod Item
