pub mod Words
pub mod Numerals
pub mod WordFront
pub mod FrontKept
pub mod SoFar
