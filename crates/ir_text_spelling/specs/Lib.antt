pub mod Marks
pub mod Spellings
pub mod TreeTexts
pub mod RoundTrips
pub mod Writings
