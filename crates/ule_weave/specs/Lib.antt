pub mod TurnText
pub mod Start
pub mod WeaveText
