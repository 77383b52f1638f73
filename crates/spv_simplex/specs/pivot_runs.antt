pub mod Along
pub mod Derivation
pub mod Arrivals
