pub mod Outcomes
pub mod NeverMixed
pub mod GenTid
