pub mod Sources
pub mod Reading
