pub mod Writing
pub mod Input
pub mod Scenario
