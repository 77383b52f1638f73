pub mod Bounding
pub mod Choices
pub mod Steps
