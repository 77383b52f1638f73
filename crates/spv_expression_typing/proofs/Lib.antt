pub mod Callees
pub mod Fields
pub mod FittedLoops
pub mod Formals
pub mod Indices
pub mod Links
pub mod Texts
