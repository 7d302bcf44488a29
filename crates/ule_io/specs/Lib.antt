pub mod Counter
pub mod Source
pub mod Sink
pub mod Calls
pub mod Playback
pub mod Recording
