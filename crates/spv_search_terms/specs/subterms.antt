pub mod Walk
pub mod Gaining
pub mod Flags
