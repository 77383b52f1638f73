pub mod evaluation
pub mod statements
pub mod control
pub mod condition_sorts
