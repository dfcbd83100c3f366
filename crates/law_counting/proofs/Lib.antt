pub mod Acts
pub mod Sums
pub mod Turns
pub mod Shows
pub mod Aborts
pub mod Charged
