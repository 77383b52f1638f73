pub mod Both
pub mod Whole
pub mod Found
