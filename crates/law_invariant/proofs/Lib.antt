pub mod Counted
pub mod Names
pub mod Refused
pub mod InvariantKept
pub mod Through
pub mod Fresh
pub mod Formed
pub mod Follows
