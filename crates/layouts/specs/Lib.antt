pub mod Numbers
pub mod Pieces
pub mod Layouts
pub mod Printed
