pub mod Candidates
pub mod Valued
pub mod Steps
pub mod Given
