pub mod ExpressionViews
pub mod FormulaViews
pub mod StatementViews
pub mod ProgramViews
pub mod Model
