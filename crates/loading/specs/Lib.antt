pub mod Spelling
pub mod Loads
