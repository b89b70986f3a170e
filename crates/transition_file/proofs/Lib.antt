pub mod Scanning
pub mod Joining
pub mod Written
