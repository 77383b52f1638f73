pub mod branches
pub mod Searching
pub mod Finding
pub mod Walking
pub mod deciding
