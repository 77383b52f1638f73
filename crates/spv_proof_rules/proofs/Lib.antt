pub mod Combinations
pub mod Evaluating
pub mod Soundness
pub mod Outcomes
pub mod Growing
pub mod Staying
