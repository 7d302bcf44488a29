pub mod Runs
pub mod Rests
pub mod Taken
pub mod Smp
pub mod Ends
pub mod Looks
