pub mod Bodies
pub mod Entries
pub mod Back
