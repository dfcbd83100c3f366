pub mod Left
pub mod Asked
