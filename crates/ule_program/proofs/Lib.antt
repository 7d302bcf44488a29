pub mod FoundLaws
pub mod GroupLaws
pub mod ProgramLaws
pub mod Leading
pub mod Following
pub mod SoundLaws
pub mod StealLaws
pub mod Rows
