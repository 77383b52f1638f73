pub mod SortFacts
pub mod FormulaSorting
pub mod ExpressionSorting
