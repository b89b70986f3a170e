pub mod Product
pub mod Interleaved
pub mod InterleavedLaw
pub mod Joining
pub mod Turns
pub mod Movers
pub mod Sides
pub mod Wording
