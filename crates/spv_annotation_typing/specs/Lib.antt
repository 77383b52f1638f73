pub mod Alone
pub mod Applied
pub mod Selected
pub mod Signatures
