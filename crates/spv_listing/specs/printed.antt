pub mod Printed
pub mod Waiting
