pub mod Judging
pub mod Told
