pub mod Keeping
pub mod Meanings
