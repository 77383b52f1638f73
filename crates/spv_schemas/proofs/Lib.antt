mod Sorts
mod Sorted
mod Values
mod Shapes
pub mod Soundness
mod SortsThatFit
mod Once
