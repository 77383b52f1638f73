pub mod Deciding
pub mod Waiting
