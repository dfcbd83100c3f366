pub mod SizeTests
pub mod Fits
