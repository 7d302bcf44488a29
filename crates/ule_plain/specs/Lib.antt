pub mod Commands
pub mod Lines
pub mod Text
pub mod Sent
pub mod ReadBack
