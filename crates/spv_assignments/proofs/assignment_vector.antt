pub mod Meanings
pub mod AllFacts
pub mod Giving
pub mod Listing
