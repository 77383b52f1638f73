pub mod Named
pub mod Rules
pub mod Sums
pub mod Cases
