pub mod reading
pub mod nesting
pub mod first_sets
pub mod expected_tokens
