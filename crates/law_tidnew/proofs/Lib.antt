pub mod Wire
pub mod Due
pub mod First
pub mod Dropped
pub mod Repeats
