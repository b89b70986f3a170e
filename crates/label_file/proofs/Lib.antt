pub mod Marking
pub mod Sets
pub mod Masks
