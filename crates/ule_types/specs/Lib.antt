pub mod Commands
pub mod Rules
pub mod Defaults
pub mod Outcome
pub mod Needs
pub mod Words
