pub mod Formulas
pub mod Turns
pub mod Names
