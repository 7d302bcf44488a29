pub mod SliceLemmas
pub mod Rows
