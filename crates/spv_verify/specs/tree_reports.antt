pub mod Walks
pub mod RuleFiles
pub mod Listings
pub mod Programs
