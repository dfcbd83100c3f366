pub mod Decided
pub mod Heads
pub mod Places
pub mod Walks
pub mod Judged
pub mod Verdicts
pub mod Order
pub mod Unknown
