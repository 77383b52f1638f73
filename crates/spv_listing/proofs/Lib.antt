pub mod Chains
pub mod Findings
pub mod WrittenTerms
pub mod WrittenProofs
pub mod WrittenPages
pub mod WrittenReports
