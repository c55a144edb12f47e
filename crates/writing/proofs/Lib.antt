pub mod Fronts
pub mod Openings
pub mod Puts
