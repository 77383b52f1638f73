pub mod derivation
pub mod branches
