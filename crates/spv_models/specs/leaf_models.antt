pub mod Subterms
pub mod Atoms
pub mod Leaves
pub mod Labels
pub mod Tables
pub mod Laws
pub mod Examples
