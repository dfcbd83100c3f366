pub mod Arrivals
pub mod FirstInfo
