pub mod CalendarLaws
pub mod PromiseLaws
pub mod Rows
