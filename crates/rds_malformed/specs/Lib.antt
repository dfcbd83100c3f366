pub mod Malformed
pub mod Items
