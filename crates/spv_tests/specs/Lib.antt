pub mod flat
pub mod reasons_tests
