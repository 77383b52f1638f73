pub mod FormulaLists
