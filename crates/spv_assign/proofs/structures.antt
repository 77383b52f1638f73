pub mod Parts
pub mod MakeLemmas
pub mod Paths
pub mod Putting
pub mod Cells
