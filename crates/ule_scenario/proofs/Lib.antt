pub mod SameBytes
pub mod Lines
pub mod WholeLines
pub mod Faults
pub mod Tails
pub mod Groups
pub mod Marks
pub mod Scripts
pub mod Meaning
pub mod LoneLines
pub mod Distinct
pub mod Passing
pub mod Sound
pub mod Kept
pub mod Feedings
pub mod Fronts
mod ScenarioRows
