pub mod Learning
pub mod Telling
