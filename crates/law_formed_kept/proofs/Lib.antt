pub mod InRecord
pub mod InHeader
pub mod Keeps
