pub mod Judge
pub mod Names
