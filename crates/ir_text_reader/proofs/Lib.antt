pub mod TextSteps
pub mod TextClauses
