pub mod Cost
pub mod Owed
pub mod Attained
