pub mod Alike
pub mod Counts
pub mod Leading
pub mod Places
