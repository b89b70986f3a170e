pub mod Ranks
pub mod Support
pub mod Right
pub mod Relative
pub mod Merging
pub mod Rounds
