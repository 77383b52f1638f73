pub mod statement_parser
pub mod Causes
pub mod Marks
pub mod Stopped
pub mod language
