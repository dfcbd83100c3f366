pub mod History
pub mod Counted
pub mod Listed
pub mod Twice
