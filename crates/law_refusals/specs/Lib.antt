pub mod Requests
pub mod Primitives
pub mod Receives
pub mod Timers
pub mod Fires
