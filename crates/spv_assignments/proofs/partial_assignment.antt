pub mod Told
pub mod Supposing
pub mod Clashing
pub mod Places
pub mod Ending
pub mod Deciding
pub mod Turns
