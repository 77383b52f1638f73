pub mod statement_rules
pub mod Walking
