pub mod Separate
pub mod Counting
pub mod Faults
pub mod Order
