pub mod TestLemmas
pub mod LinkLemmas
