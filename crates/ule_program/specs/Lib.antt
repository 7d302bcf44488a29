pub mod Sets
pub mod Groups
pub mod Program
pub mod Courses
pub mod Hearing
pub mod Laws
