pub mod WrappedArena
pub mod AuxArenaLends
pub mod Names
pub mod Side
pub mod SideLends
