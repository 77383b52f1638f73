pub mod Kept
pub mod Made
pub mod UnderRules
pub mod Staying
pub mod Goings
pub mod Stacks
pub mod Nodes
pub mod Shown
