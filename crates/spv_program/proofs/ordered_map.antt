pub mod Lookups
pub mod Putting
pub mod Replacing
