pub mod Trees
pub mod Numbering
pub mod Lawful
pub mod Reading
