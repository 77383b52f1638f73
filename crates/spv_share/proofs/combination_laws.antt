pub mod OneValue
pub mod Exact
pub mod Graphs
pub mod Growth
pub mod Enough
