pub mod Body
pub mod RefusedExactly
pub mod Items
