mod Plain
mod Changes
pub mod Parts
pub mod Programs
