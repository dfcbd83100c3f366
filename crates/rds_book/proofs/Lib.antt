pub mod Written
pub mod Same
