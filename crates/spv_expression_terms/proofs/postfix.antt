pub mod Stacks
pub mod Makeable
pub mod Postfixes
pub mod Turns
