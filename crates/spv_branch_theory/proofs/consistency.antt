pub mod Sameness
pub mod Telling
pub mod Meeting
pub mod Showing
