pub mod Stored
pub mod Formulas
