pub mod Readings
pub mod Refuting
