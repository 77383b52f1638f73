pub mod Putting
pub mod Scoping
pub mod Headings
