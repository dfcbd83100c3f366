pub mod Outcome
pub mod Openings
pub mod Requests
pub mod Receives
pub mod CallSound
