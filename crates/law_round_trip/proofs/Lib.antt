pub mod Narrow
pub mod Trip
