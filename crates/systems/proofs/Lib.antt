pub mod Kept
pub mod Listed
pub mod Most
pub mod Members
