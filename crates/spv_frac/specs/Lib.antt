pub mod rational
pub mod Range
