pub mod Parities
pub mod Denials
pub mod Turns
pub mod Standings
