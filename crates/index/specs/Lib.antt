pub mod Indexes
pub mod Calls
