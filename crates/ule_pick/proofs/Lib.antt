pub mod AnyLaws
pub mod Rows
