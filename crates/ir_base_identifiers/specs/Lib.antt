pub mod IdentErr
pub mod IdentifierText
pub mod Spent
pub mod LegaliserTables
pub mod LegaliserFields
pub mod NameLaws
