pub mod AllOf
pub mod Part
pub mod Renumbered
pub mod Varying
