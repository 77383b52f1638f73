pub mod postfix
pub mod term_walk
pub mod makeable_terms
