pub mod UnusedName
