pub mod ParsingSteps
mod RowOrder
mod TreeClauses
mod TreesFound
pub mod TreesRead
