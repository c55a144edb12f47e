pub mod Scans
pub mod Visiting
pub mod Inspects
pub mod Vacancies
pub mod Backwards
