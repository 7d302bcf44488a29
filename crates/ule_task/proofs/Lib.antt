pub mod WritingLaws
pub mod InputLaws
pub mod ScenarioLaws
