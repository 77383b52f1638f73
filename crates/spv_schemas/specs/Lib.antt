pub mod Kinds
pub mod Facts
pub mod SortsThatFit
pub mod Instances
pub mod Laws
pub mod Examples
