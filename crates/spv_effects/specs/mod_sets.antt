pub mod Roots
pub mod Sets
pub mod Changing
