pub mod Refusals
pub mod Parts
pub mod Written
pub mod Opened
pub mod Outputs
