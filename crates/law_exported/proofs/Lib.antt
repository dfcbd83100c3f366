pub mod Contracts
pub mod OneOutcome
pub mod Exported
mod PastFirst
pub mod DataSaid
pub mod InTwo
pub mod Waiting
pub mod Cost
pub mod Item
