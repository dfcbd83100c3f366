pub mod Shows
pub mod Words
pub mod Parts
pub mod Kinds
