pub mod Guiding
