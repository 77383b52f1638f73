pub mod Proved
pub mod Reports
