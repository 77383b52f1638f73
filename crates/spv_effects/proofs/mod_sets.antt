pub mod Tests
pub mod Members
pub mod Rows
pub mod Events
pub mod Forms
