pub mod Initiator
