pub mod Named
pub mod PrimitiveTests
pub mod Accepted
pub mod Placing
