pub mod Length
pub mod Widths
pub mod Judge
