pub mod Sends
pub mod Ends
pub mod Changed
pub mod Steps
