pub mod Tests
pub mod Zeros
pub mod Modes
pub mod Unknown
