pub mod Ranges
pub mod Items
pub mod Leads
pub mod TypeLemmas
pub mod Tails
pub mod Stands
pub mod Users
