pub mod Alone
pub mod Applied
pub mod Model
pub mod Selected
pub mod Views
pub mod counter_changes
