-- What makes the code's trees seen as plain data: numbers that tell them apart, and sizes that fall. No contract speaks of it.
pub mod Codes
pub mod FormulaCodes
pub mod FormulaSizes
pub mod FormulaFalls
pub mod TypeCodes
pub mod TypeSizes
pub mod TypeFalls
pub mod StatementCodes
pub mod StatementSizes
pub mod StatementFalls
