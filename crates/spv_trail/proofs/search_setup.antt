pub mod Standing
pub mod Nodes
pub mod Copies
pub mod BothSides
