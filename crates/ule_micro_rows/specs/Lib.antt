pub mod Ends
pub mod Nap
pub mod NapLaws
pub mod Shift
pub mod ShiftLaws
