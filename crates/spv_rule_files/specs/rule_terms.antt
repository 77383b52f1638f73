pub mod RuleTerms
pub mod Sound
