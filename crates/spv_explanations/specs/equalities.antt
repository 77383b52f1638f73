pub mod Reasons
pub mod Known
pub mod Links
pub mod Laws
