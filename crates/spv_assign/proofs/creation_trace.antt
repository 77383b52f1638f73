pub mod Covering
pub mod Parts
pub mod Walks
