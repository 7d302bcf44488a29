pub mod HistoryUpdateLemmas
pub mod ForkDecayLemmas
pub mod CpuUseUpdateLemmas
pub mod Rows
