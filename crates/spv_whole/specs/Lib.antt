pub mod Fraction
pub mod Gcd
