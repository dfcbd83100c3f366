pub mod Rows
pub mod Range
pub mod Transaction
