pub mod Fields
pub mod First
pub mod Best
pub mod Tests
pub mod Searches
pub mod Earliest
pub mod Receivers
