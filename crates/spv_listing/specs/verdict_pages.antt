pub mod ProofLines
pub mod VerdictLines
pub mod Counting
pub mod Totals
pub mod Rows
