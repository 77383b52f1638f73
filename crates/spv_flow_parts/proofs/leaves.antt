pub mod Chains
pub mod InFront
pub mod Asserts
