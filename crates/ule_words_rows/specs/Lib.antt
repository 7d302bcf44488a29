pub mod Firsts
pub mod Idle
pub mod Shifting
