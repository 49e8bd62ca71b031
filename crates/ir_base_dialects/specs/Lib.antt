pub mod Stores
pub mod VerifierGroups
pub mod Attributes
pub mod KeptPairs
pub mod TableLends
pub mod PairLends
pub mod AttributeLends
pub mod AttributeLaws
