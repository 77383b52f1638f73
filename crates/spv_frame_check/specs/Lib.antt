pub mod Sets
pub mod Allowed
pub mod Roots
pub mod Effects
pub mod Owned
pub mod Answers
pub mod Tables
