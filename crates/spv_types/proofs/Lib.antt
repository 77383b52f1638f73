pub mod Entitling
pub mod Whole
pub mod Tops
