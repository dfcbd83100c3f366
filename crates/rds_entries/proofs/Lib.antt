pub mod WalkSteps
pub mod Inside
pub mod Walked
