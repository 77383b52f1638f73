pub mod Bounds
pub mod Sources
pub mod Multiples
pub mod Pairs
pub mod Laws
