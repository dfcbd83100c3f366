pub mod Demand
pub mod Witnesses
pub mod Again
