pub mod Arena
pub mod Laws
pub mod substitution
pub mod closure
