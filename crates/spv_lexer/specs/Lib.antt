pub mod Spelling
pub mod Front
pub mod Reading
pub mod Tokens
pub mod Seen
pub mod token_laws
