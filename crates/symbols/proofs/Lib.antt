pub mod Onward
pub mod Telling
