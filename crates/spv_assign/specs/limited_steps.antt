pub mod Labels
pub mod Makes
