pub mod Joining
pub mod Limits
pub mod Renamings
pub mod Replacements
