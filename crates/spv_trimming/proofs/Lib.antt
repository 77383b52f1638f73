pub mod Growing
pub mod Trees
pub mod Decided
