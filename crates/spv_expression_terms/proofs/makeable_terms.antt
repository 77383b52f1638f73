pub mod Ranges
pub mod Naming
pub mod Scopes
pub mod Sorting
