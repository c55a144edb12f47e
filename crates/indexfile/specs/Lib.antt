pub mod Refusals
pub mod Numbers
pub mod Files
pub mod Reading
pub mod Seen
pub mod Written
pub mod Lines
