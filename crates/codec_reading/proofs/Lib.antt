pub mod Inside
pub mod Briefs
pub mod ReadItems
