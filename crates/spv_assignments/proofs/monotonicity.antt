pub mod Citing
pub mod Growing
pub mod Valued
