pub mod Facts
pub mod Meant
pub mod Assembled
