pub mod Layout
pub mod Order
pub mod Unknown
