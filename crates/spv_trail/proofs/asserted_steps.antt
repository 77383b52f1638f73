pub mod Numbers
pub mod Denying
