pub mod Fields
pub mod Names
pub mod Reading
pub mod Simple
pub mod Walks
