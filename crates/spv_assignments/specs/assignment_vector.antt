pub mod Sayings
pub mod Values
