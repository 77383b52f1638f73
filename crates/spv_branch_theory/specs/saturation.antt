pub mod Filled
pub mod States
pub mod Laws
