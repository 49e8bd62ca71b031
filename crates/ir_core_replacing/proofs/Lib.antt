pub mod PlaceLemmas
pub mod RenamedLemmas
pub mod UseLemmas
pub mod ForestLemmas
pub mod ChosenLemmas
pub mod GroupLemmas
pub mod ListLemmas
