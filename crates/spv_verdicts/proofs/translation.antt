pub mod ExchangeLemmas
pub mod ExchangedTreeLemmas
pub mod ReplacementLemmas
pub mod BranchLemmas
pub mod CountLemmas
pub mod StandLemmas
