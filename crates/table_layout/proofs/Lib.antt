pub mod Apart
pub mod Put
