pub mod Known
pub mod Lying
pub mod Functions
pub mod Supplied
pub mod Laws
