pub mod supply
pub mod Conditions
pub mod pending
pub mod creation_trace
pub mod limits
pub mod limited_steps
pub mod structures
