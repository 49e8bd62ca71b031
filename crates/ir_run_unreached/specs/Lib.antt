pub mod Marks
pub mod Removals
pub mod Kept
pub mod Inside
