pub mod Kept
pub mod Applying
pub mod Turns
pub mod Sketched
pub mod Put
pub mod InstanceLemmas
