pub mod Spans
pub mod Shown
