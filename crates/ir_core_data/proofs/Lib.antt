pub mod WrappedArenas
pub mod Refusals
pub mod NameLemmas
pub mod AuxLemmas
pub mod FreedSlots
pub mod SavedLemmas
