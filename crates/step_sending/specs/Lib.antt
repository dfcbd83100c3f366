pub mod Sending
pub mod Octets
