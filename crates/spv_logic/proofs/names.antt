pub mod NameTable
pub mod Packed
pub mod Places
