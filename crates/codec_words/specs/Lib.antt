pub mod Words
pub mod Listed
