pub mod ToTheEnd
pub mod Spelling
