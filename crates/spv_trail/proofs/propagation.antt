pub mod Citing
pub mod Ends
pub mod Cores
pub mod Learned
pub mod Values
pub mod RowConstraint
pub mod Changes
