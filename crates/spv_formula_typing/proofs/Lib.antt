pub mod Exits
pub mod Loops
pub mod Places
pub mod Sizes
