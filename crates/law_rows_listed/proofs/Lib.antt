pub mod Same
pub mod SameOpenings
