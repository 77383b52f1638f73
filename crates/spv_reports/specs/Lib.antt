pub mod Headings
pub mod Reports
