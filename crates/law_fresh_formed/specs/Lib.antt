pub mod FreshOk
