pub mod Turns
pub mod Among
pub mod Differing
pub mod Ordered
pub mod Said
pub mod Opposed
