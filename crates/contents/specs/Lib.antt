pub mod Labels
pub mod Labelled
pub mod NamesLine
pub mod MarksLine
