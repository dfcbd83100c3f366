pub mod Again
pub mod Elsewhere
