pub mod AddsUp
