pub mod Replacing
pub mod Growing
