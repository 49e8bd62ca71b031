pub mod LinesTold
pub mod PartSteps
pub mod RowsWithin
pub mod RunSteps
pub mod TextLines
