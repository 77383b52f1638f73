pub mod Clauses
pub mod Headings
pub mod Names
pub mod Parameters
pub mod Shared
pub mod Starts
