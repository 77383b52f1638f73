pub mod tokens
pub mod syntax
