pub mod Lists
pub mod Named
pub mod Found
pub mod Levels
