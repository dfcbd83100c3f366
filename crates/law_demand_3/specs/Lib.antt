pub mod Witnesses
pub mod Again
