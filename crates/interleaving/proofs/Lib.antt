pub mod Paired
pub mod Made
pub mod Turning
pub mod Whole
