pub mod Reading
pub mod TupleTests
pub mod SentenceTests
pub mod Searches
pub mod Runs
pub mod Texts
pub mod Copies
