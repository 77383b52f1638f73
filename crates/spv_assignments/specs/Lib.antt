pub mod kleene
pub mod polarity
pub mod partial_assignment
pub mod monotonicity
pub mod assignment_vector
