pub mod Answers
pub mod Dead
pub mod Lending
