pub mod Growing
pub mod Finding
