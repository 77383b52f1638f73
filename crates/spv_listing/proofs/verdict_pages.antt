pub mod Reach
pub mod Waiting
pub mod Splits
pub mod Operands
pub mod Counted
pub mod Rounds
