pub mod Expected
pub mod FormulaTexts
pub mod Machine
pub mod Laws
