pub mod Titles
pub mod Walks
pub mod frames
