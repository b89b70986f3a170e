pub mod Standing
pub mod Turns
pub mod Lines
