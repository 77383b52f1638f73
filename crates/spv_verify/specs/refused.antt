pub mod Refusals
pub mod Details
pub mod Told
