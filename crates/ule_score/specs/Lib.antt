pub mod Bounds
pub mod Score
pub mod TimesharePriority
pub mod Changes
pub mod Settings
pub mod Charges
