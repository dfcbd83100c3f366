pub mod Lists
pub mod LiveRows
pub mod OpeningRows
pub mod Leaves
