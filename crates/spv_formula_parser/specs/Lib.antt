pub mod primitives
pub mod Factors
pub mod Formulas
