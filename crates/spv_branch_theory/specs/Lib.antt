pub mod model_construction
pub mod consistency
pub mod saturation
pub mod search_invariant
pub mod evidence
