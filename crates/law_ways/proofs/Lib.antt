pub mod Ways
pub mod ReceivedAbort
pub mod CallWays
pub mod NumberOne
