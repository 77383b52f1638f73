pub mod Causes
pub mod RuleCauses
pub mod ListingCauses
