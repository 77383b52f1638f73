pub mod Derivation
pub mod Derived
pub mod Sides
pub mod Renumbered
pub mod Steps
pub mod Copying
pub mod Laws
pub mod Literals
