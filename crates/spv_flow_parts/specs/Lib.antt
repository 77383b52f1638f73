pub mod Standing
pub mod Walks
pub mod for_loops
pub mod leaves
pub mod assigning
pub mod calls
pub mod body_tables
