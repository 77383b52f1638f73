pub mod EquationLemmas
pub mod PairLemmas
pub mod AddLemmas
pub mod AskLemmas
