pub mod Endings
pub mod Faults
pub mod Parts
pub mod Respellings
pub mod Runs
pub mod Telling
