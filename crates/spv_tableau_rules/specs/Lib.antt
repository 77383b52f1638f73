pub mod tableaux
pub mod pivots
pub mod constraints
