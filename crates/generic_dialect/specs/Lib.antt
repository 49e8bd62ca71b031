pub mod Kinds
pub mod Implemented
pub mod Keys
