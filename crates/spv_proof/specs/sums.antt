pub mod Differences
pub mod Readings
pub mod Partials
pub mod Added
