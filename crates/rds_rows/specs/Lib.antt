pub mod Rows
pub mod Section5
