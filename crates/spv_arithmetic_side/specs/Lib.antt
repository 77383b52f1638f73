pub mod bounds
pub mod farkas
pub mod slack_rows
pub mod constraint_rows
