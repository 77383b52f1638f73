pub mod Told
pub mod Refuted
pub mod Laws
