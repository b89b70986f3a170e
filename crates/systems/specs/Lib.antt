pub mod Limits
pub mod Meaning
pub mod Law
pub mod Tabled
pub mod TabledLaw
pub mod Listing
pub mod Largest
pub mod Steps
