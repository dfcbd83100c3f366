pub mod HeaderTest
