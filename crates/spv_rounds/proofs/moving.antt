pub mod Besides
pub mod Moved
pub mod Brought
