pub mod Outcomes
pub mod ReadWords
