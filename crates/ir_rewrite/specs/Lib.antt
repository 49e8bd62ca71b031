pub mod Answers
pub mod Driving
pub mod Notes
pub mod Points
pub mod Replacing
