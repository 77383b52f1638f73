pub mod Substituted
pub mod Lists
pub mod Heads
pub mod Called
pub mod Entering
pub mod Statements
