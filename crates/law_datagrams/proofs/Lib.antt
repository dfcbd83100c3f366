pub mod Holds
pub mod Joined
pub mod Again
