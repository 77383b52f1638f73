pub mod Parts
pub mod Framed
pub mod Causes
