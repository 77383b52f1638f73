pub mod SayLemmas
pub mod GrowLemmas
