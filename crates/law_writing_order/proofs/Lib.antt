pub mod InOrder
pub mod Verdicts
