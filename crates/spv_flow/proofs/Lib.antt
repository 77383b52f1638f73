pub mod Right
pub mod Growing
pub mod Sizes
pub mod Ifs
pub mod Blocks
pub mod Cases
pub mod Loops
pub mod Fors
