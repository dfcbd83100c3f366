pub mod Trace
pub mod Tally
pub mod Start
pub mod Cost
pub mod Moves
pub mod Changed
pub mod Demand
