pub mod Calls
pub mod Chains
pub mod Counters
pub mod Labels
pub mod Parts
pub mod Settings
