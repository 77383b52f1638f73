pub mod Untrue
mod TwoRows
mod Puts
pub mod Correct
