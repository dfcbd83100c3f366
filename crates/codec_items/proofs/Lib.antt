pub mod WalkSteps
pub mod Forms
pub mod Finds
pub mod FirstUnknown
