pub mod Questions
pub mod Filled
