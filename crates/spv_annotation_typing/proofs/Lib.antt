pub mod Calling
pub mod Indices
pub mod Signing
pub mod SettledLoops
pub mod Threes
pub mod Contents
