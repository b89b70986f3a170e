pub mod Events
pub mod Unfolding
pub mod Derived
pub mod Guards
pub mod Holding
pub mod Limits
pub mod Laid
