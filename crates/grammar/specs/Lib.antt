pub mod Grammar
pub mod EventParsing
pub mod Parsing
pub mod Settling
pub mod Telling
pub mod Questions
