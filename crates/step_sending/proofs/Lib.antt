pub mod Octets
pub mod Fits
pub mod Straight
