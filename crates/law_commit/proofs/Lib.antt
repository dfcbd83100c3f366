pub mod Keeps
pub mod Frame
pub mod Left
