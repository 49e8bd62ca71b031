pub mod Walks
pub mod Closed
pub mod Dropping
pub mod Erasing
