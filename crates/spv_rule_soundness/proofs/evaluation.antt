pub mod Steps
pub mod Settings
pub mod Values
