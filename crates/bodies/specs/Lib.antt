pub mod Faults
pub mod User
pub mod Judge
