pub mod Making
pub mod Going
pub mod Agreeing
pub mod Ranges
pub mod Placing
pub mod Walking
pub mod Arriving
pub mod Bases
