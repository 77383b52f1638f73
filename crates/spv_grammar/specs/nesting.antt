pub mod Effects
pub mod Level
pub mod LeftOut
pub mod Seen
pub mod Laws
