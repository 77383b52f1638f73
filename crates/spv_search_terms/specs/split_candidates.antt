pub mod Equating
pub mod Adding
pub mod Asking
