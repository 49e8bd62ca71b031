pub mod Chosen
pub mod Renamed
