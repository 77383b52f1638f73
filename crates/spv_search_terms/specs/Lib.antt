pub mod subterms
pub mod condition_copy
pub mod head_index
pub mod split_candidates
