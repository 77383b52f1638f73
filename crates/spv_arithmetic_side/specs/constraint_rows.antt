pub mod Standing
pub mod Said
pub mod Forcing
