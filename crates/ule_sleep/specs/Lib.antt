pub mod Chain
pub mod Limbo
