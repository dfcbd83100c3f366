pub mod Costs
pub mod After
