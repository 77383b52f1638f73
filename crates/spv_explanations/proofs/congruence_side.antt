pub mod LastEntries
pub mod Trails
pub mod Ties
pub mod Denials
