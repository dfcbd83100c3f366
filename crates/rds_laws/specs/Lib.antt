pub mod Trips
pub mod FourCalls
