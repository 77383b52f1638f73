pub mod literal_lookup
pub mod decision
pub mod heuristic
