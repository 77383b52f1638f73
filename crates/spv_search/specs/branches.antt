pub mod Branches
pub mod Counts
pub mod Growth
pub mod Ends
pub mod Laws
