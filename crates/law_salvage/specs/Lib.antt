pub mod Reasons
pub mod Listed
pub mod Sentences
