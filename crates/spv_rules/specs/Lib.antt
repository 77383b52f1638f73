pub mod RuleSets
pub mod matching
pub mod making
