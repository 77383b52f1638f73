pub mod Values
pub mod Tables
pub mod Kept
pub mod Faults
pub mod Evaluating
