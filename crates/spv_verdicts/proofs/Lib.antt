pub mod TermCounts
pub mod SmallClaim
