pub mod Sets
pub mod Versions
pub mod Rounds
