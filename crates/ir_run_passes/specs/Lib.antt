pub mod Walks
pub mod AlikeHash
pub mod KeptOps
pub mod MergeSteps
pub mod Ordering
pub mod BlocksInside
pub mod Going
