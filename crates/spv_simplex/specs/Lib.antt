pub mod pivot_runs
pub mod State
pub mod Cells
pub mod Evidence
pub mod Searching
pub mod Checks
pub mod Laws
