-- What makes the code's programs seen as plain data: numbers that tell them apart, and sizes that fall. No contract speaks of it.
pub mod Codes
pub mod ExpressionCodes
pub mod ExpressionSizes
pub mod ExpressionFalls
pub mod FormulaCodes
pub mod FormulaSizes
pub mod FormulaFalls
pub mod StatementCodes
pub mod StatementSizes
pub mod StatementFalls
