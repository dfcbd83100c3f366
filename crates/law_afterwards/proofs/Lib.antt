pub mod Ways
pub mod GenTid
pub mod LastTid
pub mod Deadlines
pub mod Reasons
