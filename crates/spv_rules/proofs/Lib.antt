pub mod SortTests
pub mod Growing
pub mod Placed
