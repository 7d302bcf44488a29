pub mod Steal
