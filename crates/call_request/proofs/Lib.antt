pub mod Passed
pub mod InUse
pub mod Staged
pub mod Accepted
pub mod Opening
