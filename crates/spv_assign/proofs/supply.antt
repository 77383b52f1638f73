pub mod Counting
pub mod FreshLemmas
