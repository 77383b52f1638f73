pub mod Added
pub mod Answered
pub mod Divided
pub mod Multiplied
pub mod Opened
pub mod Scales
pub mod Turned
