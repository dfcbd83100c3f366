pub mod Places
pub mod Whole
pub mod Receivers
