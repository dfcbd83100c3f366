pub mod Base
pub mod BaseFormed
pub mod BaseFresh
pub mod BaseCalls
pub mod ModeOff
