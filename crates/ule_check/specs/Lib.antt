pub mod Same
pub mod Judge
pub mod Ending
pub mod Judged
pub mod Laws
pub mod Seats
pub mod JudgeValue
