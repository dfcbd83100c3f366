pub mod PutTaken
pub mod TakenRead
pub mod FourCalls
