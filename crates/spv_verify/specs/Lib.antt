pub mod texts
pub mod refused
pub mod reporting
pub mod tree_reports
pub mod Refusals
pub mod Causes
