pub mod Tids
