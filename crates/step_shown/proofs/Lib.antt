pub mod OwnKind
pub mod Back
pub mod Data
