pub mod Written
pub mod Names
pub mod Numerals
pub mod ExpressionTerms
pub mod Selectors
pub mod Makeable
pub mod Laws
pub mod OuterCalls
