pub mod Frees
pub mod Steps
