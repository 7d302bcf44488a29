pub mod Class
pub mod Kind
pub mod Preemption
