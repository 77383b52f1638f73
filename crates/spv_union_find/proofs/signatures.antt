pub mod ChainLemmas
pub mod Heads
pub mod RowLemmas
