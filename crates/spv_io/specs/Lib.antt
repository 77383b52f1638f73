pub mod Faults
pub mod MemorySink
pub mod MemoryTexts
pub mod Sink
pub mod Texts
