pub mod Counters
pub mod Faults
pub mod LabelLemmas
pub mod Loops
