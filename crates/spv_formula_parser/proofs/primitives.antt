pub mod Exits
pub mod Turns
