pub mod Chains
pub mod Signatures
