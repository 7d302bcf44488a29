pub mod Rows
pub mod StealLaws
