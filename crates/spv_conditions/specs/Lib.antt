pub mod Leaves
pub mod Making
pub mod Steps
pub mod Sorted
pub mod Laws
