pub mod Rules
pub mod Held
pub mod Abstracted
pub mod AbstractedLaw
pub mod Showing
pub mod Wording
