pub mod Equality
pub mod Defaults
pub mod Substitution
pub mod Sorting
pub mod Members
pub mod Changes
pub mod Ranges
