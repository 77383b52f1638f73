pub mod Calls
pub mod StatementLists
