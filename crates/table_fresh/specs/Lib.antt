pub mod Fresh
pub mod Conditions
