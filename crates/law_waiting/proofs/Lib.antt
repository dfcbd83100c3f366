pub mod Lowers
pub mod Most
pub mod Kept
pub mod Through
pub mod Fired
