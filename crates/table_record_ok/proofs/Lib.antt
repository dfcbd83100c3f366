pub mod States
pub mod RecordTest
