pub mod Logic
pub mod Members
pub mod Owns
pub mod Meeting
pub mod Collected
pub mod Effecting
pub mod Callee
