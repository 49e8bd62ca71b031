pub mod Names
pub mod Pieces
pub mod Quotes
pub mod Writings
