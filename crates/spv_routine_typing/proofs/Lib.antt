pub mod Firsts
pub mod Listing
pub mod Numbering
pub mod Naming
pub mod Steps
