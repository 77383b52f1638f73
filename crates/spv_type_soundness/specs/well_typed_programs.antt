pub mod Grown
pub mod Statements
pub mod Programs
