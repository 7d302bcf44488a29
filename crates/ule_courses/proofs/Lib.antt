pub mod Bindings
pub mod LastCpus
pub mod Parents
pub mod Looks
pub mod Courses
pub mod Hands
pub mod Replies
pub mod Histories
