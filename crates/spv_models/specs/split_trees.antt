pub mod Trees
pub mod Paths
pub mod Shown
pub mod Leaves
pub mod Kept
pub mod Laws
pub mod Examples
