pub mod Values
pub mod Facts
pub mod Following
pub mod Answers
pub mod Says
pub mod Laws
