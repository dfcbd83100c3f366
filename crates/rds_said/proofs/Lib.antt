pub mod Entries
pub mod ByKind
