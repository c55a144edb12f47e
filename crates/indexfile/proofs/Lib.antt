pub mod Bytes
pub mod Orders
pub mod Numbered
pub mod Writes
pub mod Rounds
