pub mod Unmatched
pub mod Starred
pub mod Requested
