pub mod Calc
pub mod CalcChecks
