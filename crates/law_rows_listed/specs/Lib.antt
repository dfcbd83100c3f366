pub mod Document
pub mod Openings
