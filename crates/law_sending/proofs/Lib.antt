pub mod SentReads
pub mod BySource
pub mod ItemsSaid
