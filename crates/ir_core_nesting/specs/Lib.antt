pub mod Leaves
pub mod Bare
pub mod Edits
pub mod Climbs
