pub mod Looks
pub mod Steps
pub mod Passed
pub mod Ways
pub mod Ordered
pub mod ElevenExact
