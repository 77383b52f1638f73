pub mod Same
pub mod Heads
pub mod Filling
pub mod Listing
pub mod Marking
