pub mod Filled
pub mod FilledLaw
pub mod Items
pub mod Same
