pub mod Behind
pub mod Types
