pub mod Rows
pub mod Sums
pub mod Living
pub mod Kept
pub mod Told
pub mod Through
pub mod Attained
