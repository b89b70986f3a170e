pub mod Digits
pub mod Matching
pub mod Steps
pub mod Headers
pub mod Repeats
pub mod Items
