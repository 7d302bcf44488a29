pub mod Queues
pub mod Cpu
pub mod TdqFields
pub mod Replies
pub mod Records
pub mod Promise
pub mod CpuThreads
pub mod Stands
