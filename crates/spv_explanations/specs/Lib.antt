pub mod equalities
pub mod congruence_side
