pub mod TwoWays
pub mod NameCount
