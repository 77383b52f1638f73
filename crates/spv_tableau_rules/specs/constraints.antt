pub mod Sayings
pub mod Relations
pub mod Sources
pub mod Values
pub mod Laws
