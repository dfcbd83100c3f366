pub mod First
pub mod Names
pub mod ReadTid
