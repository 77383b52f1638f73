pub mod Held
pub mod Going
pub mod Marking
pub mod Taking
pub mod Following
pub mod Giving
