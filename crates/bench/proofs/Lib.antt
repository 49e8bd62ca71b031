pub mod Made
pub mod Freed
pub mod Counted
pub mod Replaced
pub mod Grown
pub mod Placing
pub mod Rebuilding
