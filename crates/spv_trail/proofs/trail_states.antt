pub mod RowConstraint
pub mod Resting
pub mod Growing
