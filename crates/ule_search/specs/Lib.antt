pub mod Jitter
pub mod Search
pub mod Bounds
pub mod Ranked
pub mod Laws
