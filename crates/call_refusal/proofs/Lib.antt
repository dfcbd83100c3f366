pub mod LowestExact
pub mod Fits
pub mod Going
pub mod Stages
pub mod Placing
