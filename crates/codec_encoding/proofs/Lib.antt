pub mod Nacks
pub mod Headers
pub mod ItemOctets
pub mod Left
pub mod WholeOctets
