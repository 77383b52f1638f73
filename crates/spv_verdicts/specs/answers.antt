pub mod Nodes
pub mod Growing
pub mod Views
pub mod Laws
