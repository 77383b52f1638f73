pub mod Laws
pub mod Expressions
