pub mod Pieces
pub mod Folds
pub mod Marking
