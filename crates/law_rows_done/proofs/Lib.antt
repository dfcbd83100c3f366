pub mod Columns
pub mod SameActs
pub mod Deadlines
pub mod Identities
pub mod Costs
pub mod Reasons
pub mod Counters
