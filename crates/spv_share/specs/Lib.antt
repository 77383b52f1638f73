pub mod Relations
pub mod Both
pub mod States
pub mod combination_laws
