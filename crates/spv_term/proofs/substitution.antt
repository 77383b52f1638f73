pub mod PartLemmas
pub mod ImageLemmas
pub mod MakeLemmas
pub mod WorkLemmas
pub mod WalkLemmas
pub mod Finishing
pub mod Exits
pub mod FreshLemmas
