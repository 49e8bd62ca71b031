pub mod Enclosing
pub mod GenericTexts
pub mod GenericWords
pub mod Left
pub mod Tables
pub mod Checks
pub mod Refusals
