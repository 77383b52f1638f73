pub mod trail_states
pub mod asserted_steps
pub mod propagation
pub mod backtracking
pub mod search_setup
pub mod followers
