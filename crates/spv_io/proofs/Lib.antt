pub mod Added
pub mod Pieces
