pub mod OwnLemmas
pub mod BeginLemmas
pub mod SettleLemmas
