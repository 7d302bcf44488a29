pub mod Calendar
pub mod Promise
