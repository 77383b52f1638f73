pub mod Counters
pub mod Same
pub mod Statements
pub mod Stacks
