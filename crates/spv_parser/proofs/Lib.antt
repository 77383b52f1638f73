pub mod MarkTurns
pub mod ProgramParts
pub mod Wholes
pub mod FormulaTexts
