pub mod Refusing
pub mod Answering
pub mod Formed
pub mod Taken
pub mod AnsweredFrame
