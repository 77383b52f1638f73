pub mod Agreeing
pub mod Finishing
pub mod Counting
pub mod Showing
pub mod Worlds
pub mod Trying
pub mod Filling
