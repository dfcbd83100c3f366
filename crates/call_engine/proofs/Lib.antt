pub mod Carrying
pub mod Idle
pub mod Opened
pub mod Taken
pub mod Fired
pub mod Received
pub mod NamedFiring
