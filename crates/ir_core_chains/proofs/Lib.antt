pub mod InsertLemmas
pub mod Releases
pub mod ChainLoops
pub mod Written
pub mod Edits
