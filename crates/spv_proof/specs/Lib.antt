pub mod sums
pub mod checker
pub mod schema_facts
