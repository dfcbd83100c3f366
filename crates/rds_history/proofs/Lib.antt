pub mod Views
pub mod Steps
pub mod Received
pub mod Calls
pub mod Contracts
