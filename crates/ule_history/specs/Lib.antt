pub mod HistoryUpdate
pub mod ForkDecay
pub mod CpuUseUpdate
