pub mod classes
pub mod signatures
