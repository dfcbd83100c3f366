pub mod Join
pub mod Fitting
pub mod Joinable
