pub mod Heads
pub mod Variables
pub mod Soundness
pub mod Made
