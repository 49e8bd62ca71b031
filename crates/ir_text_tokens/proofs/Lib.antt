pub mod ReadingSteps
pub mod Respelling
pub mod NextTokens
pub mod Covering
pub mod Following
pub mod TokenClauses
pub mod Columns
