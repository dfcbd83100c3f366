pub mod Written
pub mod Chosen
pub mod Carried
pub mod Refused
