pub mod Truth
pub mod Runs
pub mod Parts
pub mod Laws
