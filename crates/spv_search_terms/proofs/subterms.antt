pub mod WalkLemmas
pub mod GainLemmas
pub mod PlaceLemmas
pub mod FlagLemmas
