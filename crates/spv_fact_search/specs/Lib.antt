pub mod Asking
pub mod Enlarging
pub mod Guessing
pub mod Stages
pub mod Telling
