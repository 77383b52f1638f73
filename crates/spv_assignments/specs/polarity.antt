pub mod Cores
pub mod Standings
pub mod Laws
