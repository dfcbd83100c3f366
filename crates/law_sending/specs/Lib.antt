pub mod SendingLaws
pub mod ItemsSaid
