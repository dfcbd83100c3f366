pub mod InTwo
