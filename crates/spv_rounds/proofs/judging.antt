pub mod EndLemmas
pub mod CallLemmas
pub mod SurviveLemmas
pub mod TurnLemmas
