pub mod Climbing
pub mod FormulaClimbs
pub mod StatementClimbs
pub mod TypeClimbs
pub mod Over
pub mod ProgramOver
pub mod RuleOver
pub mod Texts
