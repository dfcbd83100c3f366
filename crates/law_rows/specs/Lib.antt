pub mod Shown
pub mod Range
pub mod Transaction
