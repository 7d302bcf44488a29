pub mod Mask
pub mod Looks
pub mod Tree
pub mod Faults
pub mod Build
pub mod Table
pub mod TableLaw
pub mod Inside
