pub mod IdentifierLemmas
pub mod LegaliserLemmas
pub mod NameLawLemmas
