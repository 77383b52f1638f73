pub mod Renumbering
pub mod Growth
mod Copies
mod Derivations
pub mod Values
pub mod Bridges
pub mod Equations
pub mod Literals
