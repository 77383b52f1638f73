pub mod Matches
pub mod Examples
pub mod Views
pub mod Laws
