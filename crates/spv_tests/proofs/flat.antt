pub mod Loops
pub mod Sizes
