pub mod Octets
pub mod Fates
pub mod Outcome
pub mod Pairs
pub mod Lists
pub mod Leaves
pub mod Salvage
