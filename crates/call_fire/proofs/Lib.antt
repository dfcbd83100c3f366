pub mod Accepted
pub mod Placing
