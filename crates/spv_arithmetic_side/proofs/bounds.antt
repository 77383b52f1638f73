pub mod Finding
pub mod Stating
pub mod Pairing
