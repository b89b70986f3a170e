pub mod LabelPart
pub mod Found
