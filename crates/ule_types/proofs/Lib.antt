pub mod Placed
pub mod Repeats
pub mod Rows
pub mod Numbers
