pub mod Read
pub mod Brief
