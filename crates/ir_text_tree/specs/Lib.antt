pub mod Rows
pub mod TextSteps
pub mod TreeFaults
pub mod TreeSteps
pub mod Parsings
pub mod Trees
pub mod Reading
