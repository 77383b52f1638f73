pub mod Worths
pub mod Apart
pub mod Whole
pub mod Shown
