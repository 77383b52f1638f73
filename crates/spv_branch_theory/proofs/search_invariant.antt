pub mod Relations
pub mod Adding
pub mod Fewer
