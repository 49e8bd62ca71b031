pub mod DefinitionLists
mod HeldLists
