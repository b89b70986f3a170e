pub mod Asking
pub mod Sets
pub mod TransitionPart
pub mod Found
pub mod Records
